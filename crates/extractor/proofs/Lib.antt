-- The root of the laws.
pub mod RuleLookup
pub mod PartnerLaws
pub mod PlaceLaws
pub mod ListLaws
pub mod NumberLaws
pub mod RowLaws
pub mod TextLaws
