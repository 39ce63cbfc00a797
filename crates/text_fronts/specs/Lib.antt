-- Fronts read from a text. What their functions promise each other: Parts.
pub mod Parts
