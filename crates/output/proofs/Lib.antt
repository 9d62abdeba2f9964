pub mod AddedLaws
