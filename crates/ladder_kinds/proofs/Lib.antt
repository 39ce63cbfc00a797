-- Laws that the proofs of functions cite.
pub mod Arms
pub mod Laws
pub mod Numbers
