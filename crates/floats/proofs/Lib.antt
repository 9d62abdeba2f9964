pub mod UnitsLaws
pub mod RoundLaws
pub mod PartLaws
pub mod BetweenLaws
pub mod WithinLaws
