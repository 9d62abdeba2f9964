pub mod Answer
pub mod Part
