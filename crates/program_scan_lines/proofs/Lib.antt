-- Laws that the proofs of functions cite.
pub mod Fills
pub mod Lines
pub mod Tables
