-- The root of the definitions.
pub mod Words
pub mod Numbers
