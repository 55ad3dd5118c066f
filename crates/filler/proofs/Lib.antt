-- The root of the laws.
pub mod Answers
pub mod Eights
pub mod TextLines
pub mod ChosenRows
pub mod RowLaws
pub mod Preparing
pub mod LocalArray
