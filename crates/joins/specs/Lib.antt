-- The root of the definitions.
pub mod Joins
pub mod Graphs
pub mod Premises
pub mod Tables
