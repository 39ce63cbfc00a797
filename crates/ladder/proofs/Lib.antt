-- Laws that the proofs of functions cite.
pub mod Answers
pub mod Scans
