-- Lines that are a number. What the functions promise: Parts.
pub mod Parts
