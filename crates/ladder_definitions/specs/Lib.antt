-- Ladders. Definitions: Tree, Meaning, Writes, Entries, Kept, Questions, and the call Ladder scan: LadderScan. Worked ladders: Bench, Examples. What is proved
-- of the definitions: Theorems, with Standing. Where words hold a ladder: Held, Roots. Laws, which no contract cites: Laws.
pub mod Tree
pub mod Meaning
pub mod Writes
pub mod Entries
pub mod Standing
pub mod Kept
pub mod Questions
pub mod Bench
pub mod Held
pub mod LadderScan
pub mod Roots
