-- The root of the laws: words and questions, as the functions' proofs cite them.
pub mod Listing
pub mod Covering
pub mod Planning
pub mod LineFields
pub mod Gaps
pub mod OnePass
pub mod Leading
pub mod LineAnswers
pub mod Carrying
pub mod EdgeLines
