-- Questions 10 and 17. What the functions promise: Parts.
pub mod Parts
