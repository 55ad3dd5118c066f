-- The root of the theorems.
pub mod WritableTrees
pub mod Derivations
pub mod DerivationCases
