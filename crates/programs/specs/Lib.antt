-- The root of the definitions: the files, what the programs print, and what holds of it.
pub mod Files
pub mod Programs
pub mod Facts
