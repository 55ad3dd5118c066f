-- The root of the definitions.
pub mod Coverage
pub mod Rules
pub mod Wants
pub mod Plans
pub mod Filling
pub mod Candidates
