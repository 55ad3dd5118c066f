-- The root of the laws.
-- a record and its words
pub mod Packing
-- single words and records
pub mod WordLaws
-- what adding and handling make of the chart that words stand for
pub mod Written
pub mod Rewritten
pub mod Grown
