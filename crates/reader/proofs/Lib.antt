-- Laws that the proofs of functions cite.
pub mod Answers
pub mod Coding
pub mod Keeping
