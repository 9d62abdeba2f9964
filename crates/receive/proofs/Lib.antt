pub mod ReadLaws
pub mod ReplyLaws
pub mod OutcomeLaws
