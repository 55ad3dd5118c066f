-- The root of the theorems.
pub mod Writings
pub mod Filling
pub mod OwnCharts
pub mod Demand
pub mod Choices
pub mod Derivations
pub mod CountsUnread
