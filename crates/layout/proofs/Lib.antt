-- The root of the laws.
pub mod Sizes
pub mod Fields
