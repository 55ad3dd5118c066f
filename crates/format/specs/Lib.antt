-- The root of the definitions.
pub mod Tests
pub mod Lines
pub mod Fields
pub mod Shape
pub mod Writing
pub mod Copying
