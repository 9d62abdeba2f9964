pub mod BetweenLaws
pub mod Clash
pub mod AtLaws
pub mod PackedLaws
pub mod SizesLaws
pub mod BoolLaws
pub mod SameLaws
