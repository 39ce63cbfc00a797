-- Laws that the proofs of functions cite.
pub mod Fronts
pub mod Outputs
pub mod Rears
