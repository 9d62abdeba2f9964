pub mod Engine
pub mod Home
pub mod Safe
pub mod Upholds
pub mod Rules
pub mod Facts
pub mod Written
