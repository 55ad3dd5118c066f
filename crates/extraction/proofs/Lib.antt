-- The root of the theorems.
-- the parts of an application: by edge numbers, by partners, on a placement
pub mod NumberedParts
pub mod Partners
pub mod Placing
pub mod SpelledParts
-- what records spell, by the closure rules
pub mod SpelledItems
pub mod SpelledTrees
-- the applications listed from the top
pub mod Listings
pub mod ListedRows
