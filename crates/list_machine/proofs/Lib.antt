-- Laws that the proofs of functions cite.
pub mod Steps
pub mod Laws
