-- The root of the laws.
-- the bits of a word
pub mod BitLaws
-- the levels of words
pub mod LevelLaws
