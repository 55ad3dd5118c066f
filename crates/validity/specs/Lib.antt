-- The root of the definitions: question 8 for a lent chart as tests, and as what they ask.
pub mod Checking
pub mod Existing
