-- Laws that the proofs of functions cite.
pub mod Ranges
pub mod Timers
