-- What an instruction does. What its functions promise: Parts.
pub mod Parts
