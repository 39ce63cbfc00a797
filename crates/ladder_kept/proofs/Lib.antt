-- Laws that the proofs of functions cite.
pub mod Holding
pub mod Laws
