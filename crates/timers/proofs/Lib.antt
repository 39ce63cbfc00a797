pub mod Working
pub mod Asking
pub mod Packing
pub mod Laws
