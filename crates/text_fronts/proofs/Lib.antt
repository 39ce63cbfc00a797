-- Laws that the proofs of functions cite.
pub mod Chains
pub mod Factors
pub mod Parts
pub mod Sets
