-- The printed list. What its functions promise each other: Parts.
pub mod Parts
