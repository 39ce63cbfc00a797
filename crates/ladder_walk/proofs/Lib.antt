-- Laws that the proofs of functions cite.
pub mod Roots
pub mod Walks
