-- The root of the definitions.
pub mod Derivations
pub mod DerivationCases
