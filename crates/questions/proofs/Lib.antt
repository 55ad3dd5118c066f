-- The root of the laws and theorems.
pub mod StoredLaws
pub mod Refusals
-- an accepted table is a well-formed grammar or graph
pub mod WellFormedQuestions
pub mod WellFormedWalk
pub mod WellFormedReading
pub mod WellFormedLists
pub mod WellFormedPlans
pub mod WellFormedTables
pub mod WellFormedGrammar
pub mod WellFormedAccepted
pub mod WellFormedGraph
pub mod WellFormedLent
pub mod Caps
-- and the converse: the text of a grammar or a graph
pub mod SmallFields
pub mod TableTextLines
pub mod TableTextGrammar
pub mod TableTextGraph
-- question 8 for tables
pub mod Filled
