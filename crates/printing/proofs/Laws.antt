-- Laws that the crates above cite. No contract cites these modules.
pub mod Puts
