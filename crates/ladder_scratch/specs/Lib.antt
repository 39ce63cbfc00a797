-- Question 9. What its functions promise each other: Measuring.
pub mod Measuring
