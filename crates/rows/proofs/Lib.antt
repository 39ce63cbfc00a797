-- Laws that the proofs of this crate's functions cite.
pub mod Searches
pub mod Gathers
pub mod Scatters
pub mod Times
pub mod Laws
