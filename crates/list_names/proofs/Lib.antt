-- Laws that the proofs of functions cite.
pub mod Tables
pub mod Fixed
pub mod Chunks
pub mod Letters
