-- The root of the definitions.
pub mod Trials
pub mod Table
