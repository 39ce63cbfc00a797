-- Laws that the proofs of functions cite.
pub mod Printing
pub mod Rungs
