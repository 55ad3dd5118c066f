-- The root of the definitions.
pub mod Layout
pub mod Questions
pub mod Reading
pub mod Refusing
pub mod Checking
pub mod Abstract
pub mod Walk
pub mod TableText
