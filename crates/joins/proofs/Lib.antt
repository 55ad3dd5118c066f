-- The root of the laws.
pub mod Known
pub mod PlanMasks
pub mod Touching
pub mod GraphLaws
pub mod Openness
pub mod Dropping
pub mod EdgeMaps
pub mod MapLaws
pub mod Narrowing
pub mod Combining
pub mod Showing
pub mod GraphPlaces
