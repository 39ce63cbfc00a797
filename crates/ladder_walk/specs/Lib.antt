-- A rung worked along its kept words. What its functions promise each other: Walking.
pub mod Walking
