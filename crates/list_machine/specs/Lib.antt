-- One scan of a list. What its functions promise each other: Parts. Laws, which no contract cites: Laws.
pub mod Parts
