pub mod View
pub mod Stands
pub mod Hub
pub mod Facts
pub mod Safe
