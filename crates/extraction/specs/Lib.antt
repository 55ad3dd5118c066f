-- The root of the definitions.
pub mod Extraction
pub mod Listing
