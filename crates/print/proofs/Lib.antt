pub mod WidthLaws
pub mod NumberLaws
