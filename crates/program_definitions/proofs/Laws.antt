-- Laws of the definitions. No contract cites these modules.
pub mod Alike
pub mod Bounds
pub mod Labels
pub mod Outcomes
