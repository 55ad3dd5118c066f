-- The root of the theorems.
pub mod Checked
pub mod Readings
pub mod Table
