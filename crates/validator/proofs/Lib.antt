-- The root of the laws: each test on words is the definition's.
pub mod WordTests
