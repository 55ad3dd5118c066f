-- The root of the laws and theorems.
-- what start and run answer and leave
pub mod Answers
pub mod Calls
-- when a record waits
pub mod Waiting
-- from a start on: demand 3 for runs
pub mod Demand
