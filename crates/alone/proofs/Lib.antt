pub mod WrittenLaws
pub mod ToldLaws
pub mod LeftLaws
pub mod ShortLaws
