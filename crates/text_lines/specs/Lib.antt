-- Lines read from a text and kept. What their functions promise each other: Parts.
pub mod Parts
