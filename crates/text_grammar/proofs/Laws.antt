-- Proofs of what Theorems states, and laws of what is read. No contract cites these modules.
pub mod Letters
pub mod Spans
pub mod Parses
pub mod Fits
pub mod Complete
pub mod Local
pub mod Place
pub mod Accepted
