pub mod AnswerLaws
pub mod PartLaws
