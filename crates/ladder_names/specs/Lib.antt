-- Questions 5 to 8 and 17. What their functions promise each other: Asking.
pub mod Asking
