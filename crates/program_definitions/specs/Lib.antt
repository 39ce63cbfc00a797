-- What the programs ladder-list and ladder-scan print. Definitions: Lines, Refusals, Outcome, Printout (ladder-list), Scanout (ladder-scan). Worked: Examples (lines),
-- CaseA (document 01's case A). What is promised: Theorems. Laws, which no contract cites: Laws.
pub mod Lines
pub mod TimerLines
pub mod Refusals
pub mod Outcome
pub mod Printout
pub mod Scanout
pub mod CaseA
