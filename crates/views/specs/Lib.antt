pub mod Hall
pub mod Faithful
pub mod Acts
pub mod Moves
pub mod Best
