-- F and R in code. What their functions promise each other: Parts.
pub mod Parts
