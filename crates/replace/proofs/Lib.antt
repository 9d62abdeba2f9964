pub mod TakingLaws
pub mod FollowLaws
pub mod TakenLaws
pub mod FittingLaws
