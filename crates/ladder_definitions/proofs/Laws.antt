-- Proofs of what Theorems states. No contract cites these modules.
pub mod Decoding
pub mod Watchdog
pub mod Scratch
pub mod Timed
pub mod Accepting
pub mod Held
pub mod Trees
pub mod Calls
pub mod Writes
pub mod Entries
pub mod Answers
