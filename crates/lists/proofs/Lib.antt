-- The root of the laws.
-- lists and their entries
pub mod ListLaws
-- cursors that go through lists
pub mod CursorLaws
