pub mod Tests
pub mod WordsLaws
pub mod CommandLaws
pub mod CaseLaws
pub mod AnswersLaws
pub mod EntryLaws
pub mod ProposalLaws
pub mod CastLaws
