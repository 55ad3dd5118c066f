-- The root of the laws.
pub mod Answers
-- the table
pub mod TableLaws
