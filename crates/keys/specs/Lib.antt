-- The root of the definitions.
pub mod Pivots
pub mod Keys
