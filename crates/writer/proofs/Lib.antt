-- The root of the theorems.
pub mod Goals
pub mod Deliveries
