-- Laws that the proofs of functions cite, in this crate and in those above it.
pub mod Copies
pub mod Laws
pub mod Theorems
pub mod Examples
