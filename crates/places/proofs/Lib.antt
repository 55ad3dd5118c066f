-- The root of the laws.
pub mod Bytewise
pub mod Spreading
pub mod Reading
pub mod Once
pub mod Joining
pub mod Fitting
