-- Laws of the definitions. No contract cites these modules.
pub mod Ops
pub mod Sorts
