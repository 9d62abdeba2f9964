pub mod PutLaws
pub mod QuorumLaws
pub mod Member
pub mod Steps
pub mod Safe
pub mod Theorems
pub mod Sample
