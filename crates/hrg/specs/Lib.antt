-- The root of the definitions.
pub mod Counts
pub mod Grammars
pub mod Trees
pub mod Replacement
pub mod Deduction
pub mod Items
pub mod Truth
pub mod ReplacementTruth
pub mod WellFormed
pub mod WellFormedTest
pub mod Agenda
pub mod AgendaRun
pub mod ClosureRun
pub mod Cases
pub mod CountBound
pub mod Outcome
pub mod AgendaFacts
