-- Question 4. What its functions promise each other: Pending. Laws, which no contract cites: Laws.
pub mod Pending
