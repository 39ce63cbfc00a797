-- Laws that the proofs of functions cite.
pub mod Keeping
pub mod OneLine
