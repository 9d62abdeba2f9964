pub mod SoughtLaws
pub mod LiteralLaws
pub mod GrowLaws
pub mod NumberLaws
pub mod MeaningLaws
