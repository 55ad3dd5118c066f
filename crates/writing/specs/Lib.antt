-- The root of the definitions.
pub mod Writing
pub mod Filling
pub mod Demand
