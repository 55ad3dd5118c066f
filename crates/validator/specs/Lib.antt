-- The root of the definitions: the numbers of accepted tables that question 8 asks for.
pub mod Sizes
