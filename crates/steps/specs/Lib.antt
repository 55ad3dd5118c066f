-- The root of the definitions.
pub mod Leaves
pub mod Partners
pub mod Ready
pub mod Runs
pub mod Ways
