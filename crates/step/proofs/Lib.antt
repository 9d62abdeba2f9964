pub mod StepLaws
pub mod ActsLaws
