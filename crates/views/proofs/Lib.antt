pub mod KeepsLaws
pub mod FaithfulLaws
pub mod Theorems
pub mod Moves
pub mod BestLaws
pub mod Sample
