-- The root of the laws: the functions, way by way.
pub mod CallSteps
