-- Laws that the proofs of functions cite.
pub mod Boths
pub mod Tables
