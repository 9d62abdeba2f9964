pub mod SenderLaws
pub mod ObeyedLaws
pub mod RuleLaws
