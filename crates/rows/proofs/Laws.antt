-- What stands in a row of structs, as records, and in a row taken apart. No contract cites these modules.
pub mod Records
pub mod Gathered
pub mod Written
