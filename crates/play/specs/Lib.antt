pub mod Play
pub mod Answer
pub mod Theorems
pub mod Vectors
