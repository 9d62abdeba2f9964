pub mod ListLaws
pub mod PartLaws
pub mod RowLaws
pub mod WordsLaws
pub mod LegalLaws
