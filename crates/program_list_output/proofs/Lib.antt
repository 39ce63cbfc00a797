-- Laws that the proofs of functions cite.
pub mod Counts
pub mod Prints
