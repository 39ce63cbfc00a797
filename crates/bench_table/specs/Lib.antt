-- Document 01's table of bench ladders: Bench.
pub mod Bench
