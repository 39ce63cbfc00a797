-- What the functions of this crate promise each other: Parts.
pub mod Parts
