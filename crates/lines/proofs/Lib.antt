-- The root of the laws.
pub mod Cells
pub mod Places
pub mod Rows
