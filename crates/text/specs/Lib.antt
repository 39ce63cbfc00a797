-- What the functions inside Read promise each other: Parts.
pub mod Parts
