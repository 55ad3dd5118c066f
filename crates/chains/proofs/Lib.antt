-- The root of the laws.
-- searching and linking
pub mod ChainLaws
