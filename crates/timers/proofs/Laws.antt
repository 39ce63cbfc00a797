-- Laws of timer records in slices. No contract cites these modules.
pub mod Places
pub mod Numbers
pub mod Columns
pub mod Flags
pub mod Kept
