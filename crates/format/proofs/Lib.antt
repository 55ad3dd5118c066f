-- The root of the laws.
pub mod TestLaws
pub mod LineLaws
pub mod FieldLaws
pub mod DecimalLaws
pub mod ShapeLaws
pub mod WritingLaws
pub mod RoundTrip
