-- Laws of the definitions. No contract cites these modules.
pub mod Numbers
pub mod Search
pub mod Operands
pub mod Sound
pub mod Complete
pub mod Printed
pub mod Lists
pub mod Whole
pub mod Calls
