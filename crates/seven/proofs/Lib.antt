pub mod Steps
pub mod Homes
