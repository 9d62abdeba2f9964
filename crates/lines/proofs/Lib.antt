pub mod CaseLaws
pub mod TypeLaws
pub mod FieldLaws
pub mod LinesLaws
pub mod OpeningLaws
