-- The verdict of ladder-scan. What functions inside promise each other: Parts.
pub mod Parts
