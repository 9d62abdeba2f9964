pub mod Promise
pub mod Gate
pub mod Heads
pub mod Append
