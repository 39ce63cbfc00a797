-- Laws of the definitions. No contract cites these modules.
pub mod Answers
pub mod Boths
pub mod Calls
pub mod Exact
pub mod Exec
pub mod Legal
pub mod Timed
pub mod Refused
pub mod Lists
pub mod Many
pub mod Operands
pub mod Parts
pub mod Places
pub mod Times
pub mod Rows
pub mod Scans
