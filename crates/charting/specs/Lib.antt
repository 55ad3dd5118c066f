-- The root of the definitions: start and run, and what holds of them.
pub mod Calls
pub mod Facts
