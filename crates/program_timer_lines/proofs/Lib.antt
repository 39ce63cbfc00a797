-- Laws that the proofs of functions cite.
pub mod Fields
pub mod Records
pub mod Timers
pub mod Words
