pub mod RowLaws
pub mod GatherLaws
pub mod GatheringLaws
