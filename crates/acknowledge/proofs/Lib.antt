pub mod AppendLaws
