-- Timer records in one slice of numbers. What functions promise: Parts. Laws, which no contract cites: Laws.
pub mod Parts
