pub mod ConfirmedLaws
pub mod LengthLaws
pub mod BestLaws
