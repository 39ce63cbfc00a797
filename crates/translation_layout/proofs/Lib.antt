-- Laws that the proofs of functions cite.
pub mod Laying
pub mod Writing
