pub mod HeadLaws
pub mod TableLaws
pub mod LegalLaws
pub mod ImageLaws
pub mod ImageWrites
pub mod CheckLaws
pub mod ReportLaws
