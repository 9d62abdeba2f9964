pub mod LeadLaws
pub mod CountedLaws
pub mod YesLaws
