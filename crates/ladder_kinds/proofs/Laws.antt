-- Laws of sorts. No contract cites these modules.
pub mod Sorts
