-- The root of the laws.
-- the tests decide what question 8 asks, and there are words that it does not ask
pub mod ExistingTest
pub mod AnyNumber
-- for its callers
pub mod KnownCharts
-- the program's own charts pass it
pub mod OpenNodes
pub mod KnownItems
pub mod Own
-- records and items are one to one
pub mod Images
-- what they make is small
pub mod Compactness
pub mod Made
