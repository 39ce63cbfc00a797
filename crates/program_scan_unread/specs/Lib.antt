-- What the functions of this crate promise of the marks.
pub mod Marks
