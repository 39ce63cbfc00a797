-- Laws of the definitions. No contract cites these modules.
pub mod Runs
pub mod Scans
pub mod Seeks
pub mod Entries
