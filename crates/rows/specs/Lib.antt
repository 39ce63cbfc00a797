-- Rows of rung records as structs. Definitions: Rows. What functions inside promise each other: Parts. Laws, which no contract cites: Laws.
pub mod Rows
pub mod Parts
