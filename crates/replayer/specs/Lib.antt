-- The root of the definitions.
pub mod Fitting
pub mod Rows
pub mod RowParts
pub mod Following
pub mod Verdicts
