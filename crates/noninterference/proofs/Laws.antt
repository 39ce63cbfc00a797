-- Proofs of what Theorems states. No contract cites these modules.
pub mod Contacts
pub mod Lockstep
pub mod Replaying
pub mod Uninfluenced
pub mod Unread
pub mod Lists
pub mod Words
pub mod Again
