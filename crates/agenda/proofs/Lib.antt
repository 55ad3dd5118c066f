-- The root of the theorems.
-- records and items; what a record makes
pub mod Records
pub mod Consequences
-- records added to a chart, and the choice of a step
pub mod Adding
pub mod Growth
pub mod Choice
-- the chart and the agenda over the closure
pub mod Spelling
pub mod Making
pub mod Simulation
pub mod Runs
pub mod RunFacts
-- what a program that lends a chart is told
pub mod Telling
