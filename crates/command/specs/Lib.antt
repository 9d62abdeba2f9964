pub mod Words
pub mod Command
pub mod Case
pub mod Entry
pub mod Answers
pub mod Proposal
