-- The theorems of the two programs.
pub mod Limits
pub mod Printed
pub mod AcceptedFiles
pub mod Deriving
pub mod Programs
