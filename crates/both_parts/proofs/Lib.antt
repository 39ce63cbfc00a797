-- Laws that the proofs of functions cite.
pub mod Asking
pub mod Copies
