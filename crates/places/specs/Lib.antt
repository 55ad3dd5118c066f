-- The root of the definitions.
pub mod Words
pub mod Laws
pub mod Swar
pub mod Maps
