-- The root of the laws.
-- the word that tells whether each record covers its open nodes
pub mod CoverLaws
-- the keys of the records
pub mod KeyLists
-- the indexes as records come, are improved and handled
pub mod IndexLaws
-- the chart beside them
pub mod AddLaws
-- records over which cursors skim
pub mod QuietLaws
