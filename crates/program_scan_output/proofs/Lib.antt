-- Laws that the proofs of functions cite.
pub mod Scans
pub mod Runs
