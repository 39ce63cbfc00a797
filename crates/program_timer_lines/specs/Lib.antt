-- The tick and the timer lines of ladder-scan's input. What the functions promise: Fields, of numbers between spaces; Timers.
pub mod Fields
pub mod Timers
