-- The root of the laws.
-- one line against the tables
pub mod TextRows
pub mod NodeTests
pub mod RowPlaces
pub mod InnerNodes
pub mod RowTests
pub mod EdgeTests
-- the replay
pub mod MaskTests
pub mod PlacedRows
pub mod RowParts
pub mod Following
pub mod Verdicts
