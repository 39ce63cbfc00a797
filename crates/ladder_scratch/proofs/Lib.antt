-- Laws that the proofs of functions cite.
pub mod FewWords
pub mod Measures
pub mod Asked
