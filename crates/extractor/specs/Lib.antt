-- The root of the definitions.
pub mod Texts
pub mod Reading
pub mod Lists
pub mod RowFacts
