-- The root of the definitions.
pub mod Lists
pub mod Cursors
