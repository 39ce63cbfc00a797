-- The proofs of this crate; Marks has their laws.
pub mod Marks
