-- Laws of the definitions. No contract cites these modules.
pub mod Decoding
pub mod InRange
pub mod Names
pub mod Timed
pub mod Refusing
pub mod Watchdog
pub mod Writes
pub mod Times
pub mod Answers
