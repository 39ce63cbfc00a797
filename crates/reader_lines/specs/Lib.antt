-- One line of a list's text. What its functions promise each other and their callers: Parts.
pub mod Parts
