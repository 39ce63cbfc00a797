-- The table and the timer records that both scans work on. Definitions: Timer, State, Questions, Halt, Writes, TimerRecords. Worked timers: Examples. What functions promise:
-- Parts. Laws, which no contract cites: Laws.
pub mod Timer
pub mod State
pub mod Questions
pub mod Halt
pub mod Writes
pub mod TimerRecords
pub mod Parts
