-- The root of the laws.
-- a part of words that is lent and comes back
pub mod Parts
-- which order a new, an improved or a handled record changes
pub mod Orders
-- the set as a record comes or goes
pub mod SetLaws
-- the least number of the set is that of the first waiting record of least count
pub mod LeastLaws
