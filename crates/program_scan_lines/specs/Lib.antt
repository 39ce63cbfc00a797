-- The watchdog and the variables line of ladder-scan's input. What the functions promise: Parts.
pub mod Parts
