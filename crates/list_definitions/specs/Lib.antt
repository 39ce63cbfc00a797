-- Lists. Definitions: Instruction, Decoding, Machine, Writes, Questions, Names, and the calls List scan and Listing: ListScan, Listing. Worked lists: Examples. What is
-- proved of the definitions: Theorems, with Standing. Laws, which no contract cites: Laws.
pub mod Decoding
pub mod Instruction
pub mod ListScan
pub mod Listing
pub mod Machine
pub mod Names
pub mod Questions
pub mod Standing
pub mod Writes
