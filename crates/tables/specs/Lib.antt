-- The root of the definitions.
pub mod Marks
pub mod Concluding
pub mod Plans
