-- A list laid out and written. What their functions promise each other: Parts.
pub mod Parts
