-- Laws that the proofs of functions cite.
pub mod Accepting
pub mod Printed
