-- The root of the definitions.
pub mod Records
pub mod Consequences
pub mod Steps
pub mod Telling
pub mod RunFacts
