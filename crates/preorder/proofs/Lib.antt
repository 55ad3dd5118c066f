-- The root of the theorems.
pub mod Faults
pub mod Rows
pub mod Unique
pub mod Tests
pub mod Sound
pub mod Complete
pub mod Replay
-- for a replay in code: more calls, and masks
pub mod Calls
pub mod Used
