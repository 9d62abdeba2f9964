pub mod GateLaws
pub mod PromiseLaws
pub mod HeadsLaws
pub mod LostLaws
pub mod AppendLaws
