pub mod SpokenLaws
pub mod AnswerLaws
pub mod GivesLaws
