-- Laws that the proofs of functions cite.
pub mod Numbers
pub mod Laws
pub mod Theorems
pub mod Examples
