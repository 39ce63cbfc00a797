-- The reader of a list's text. What its functions promise each other: Parts.
pub mod Parts
