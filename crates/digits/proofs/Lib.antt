pub mod JoinLaws
pub mod LaneLaws
pub mod LegalLaws
pub mod MarkLaws
pub mod OrderLaws
pub mod TextLaws
