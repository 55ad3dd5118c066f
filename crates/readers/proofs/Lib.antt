-- The root of the laws that the functions' proofs cite.
pub mod Letters
pub mod Turns
pub mod Delivery
