-- Laws and theorems of this crate's definitions, and worked examples. No contract cites these modules.
pub mod Laws
pub mod Theorems
pub mod Examples
