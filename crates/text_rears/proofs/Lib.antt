-- Laws that the proofs of functions cite.
pub mod Letters
pub mod Ends
pub mod Rears
