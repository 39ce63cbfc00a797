-- Questions before work. Definitions: Bytes, Tests, Questions, Refusals. Laws of them, which no contract cites: Laws.
pub mod Bytes
pub mod Tests
pub mod Questions
pub mod Refusals
