pub mod Run
pub mod Reaches
pub mod Phases
