-- The root of the laws.
-- lines inside their table, the parent of a plan node, and lists of nodes
pub mod Inside
pub mod Parents
pub mod NodeLists
-- a plan node as one number
pub mod JoinWords
-- what the rules make covers its open nodes
pub mod Covering
-- what a rule makes, as at most one item
pub mod RuleItems
pub mod RuleAnswers
pub mod RootLaws
-- what an item wants, and what meets at no plan node
pub mod WantLaws
pub mod Meeting
-- the plan nodes above, in a table
pub mod PlanLaws
-- which of two items comes first
pub mod Leading
-- items that show each open graph node of their edges
pub mod CoverageLaws
-- graph edges that make nothing with an item
pub mod CandidateLaws
