pub mod PlayLaws
pub mod WholeLaws
pub mod GainLaws
pub mod AnswerLaws
pub mod Theorems
pub mod Vectors
pub mod CaseLaws
