-- The laws that the proofs cite.
pub mod FileLaws
pub mod PrintLaws
pub mod ProgramLaws
