pub mod LineLaws
pub mod CheckLaws
pub mod EntryLaws
pub mod WalkLaws
