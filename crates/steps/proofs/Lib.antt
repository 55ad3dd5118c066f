-- The root of the laws.
pub mod LeafLoops
pub mod PartnerLaws
pub mod StepLaws
pub mod KnownLaws
pub mod ReadyLaws
pub mod MadeLaws
pub mod CandidateSteps
pub mod KindLaws
pub mod ListedLaws
pub mod ManyLaws
pub mod SingleLaws
pub mod RunLaws
