-- The root of the theorems, from lists and counts up to the agenda over the closure.
pub mod Sums
pub mod Members
pub mod Reordering
pub mod Degrees
-- plans and well-formedness
pub mod Plans
pub mod WellFormedTest
-- trees
pub mod Parts
pub mod TreeNodes
-- T3: trees and edge replacement
pub mod TreesToReplacement
pub mod ReplacementToTrees
pub mod ProperGraphs
pub mod Targets
pub mod Replacement
-- T1, T2, T5: the closure and trees
pub mod Sides
pub mod Joining
pub mod SingleEdges
pub mod Soundness
pub mod Splitting
pub mod Completeness
pub mod Goals
pub mod NonEmpty
-- T4, T6: the agenda, over any deduction system and over the closure
pub mod AgendaInvariant
pub mod ClosureSize
pub mod AgendaRun
pub mod ClosureRun
pub mod Range
pub mod ClosureAgenda
pub mod CountBound
-- items, by edge replacement
pub mod ReplacementTruth
