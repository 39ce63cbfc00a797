-- What goes before and after both scans. What its functions promise: Parts.
pub mod Parts
