-- Name tables. What the functions promise: Parts.
pub mod Parts
