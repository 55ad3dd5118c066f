-- The root of the definitions.
pub mod Index
pub mod Quiet
