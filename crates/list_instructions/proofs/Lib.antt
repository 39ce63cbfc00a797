-- Laws that the proof of carry_out cites.
pub mod Arms
