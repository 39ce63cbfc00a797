-- Laws that the proofs of functions cite.
pub mod Bytes
pub mod Capitals
pub mod Names
pub mod Operands
pub mod Labels
pub mod Lines
