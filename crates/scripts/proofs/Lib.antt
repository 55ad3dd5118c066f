-- The root of the laws and theorems.
pub mod ScriptTests
pub mod Canonical
pub mod RowTexts
pub mod ScriptReading
