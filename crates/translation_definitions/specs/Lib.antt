-- Ladders to lists. Definitions: Translate, TranslateKept (the call), BothScans. Worked translations: Examples. What is promised: Demand3 (its two halves),
-- Agreement (over trees), Calls (over the calls), RowsAgree (over rows of records), BothAgree (over the code), ManyScans (over any number of scans), Theorems.
-- Laws, which no contract cites: Laws.
pub mod Agreement
pub mod BothAgree
pub mod BothScans
pub mod Calls
pub mod Demand3
pub mod ManyScans
pub mod RowsAgree
pub mod Translate
pub mod TranslateKept
