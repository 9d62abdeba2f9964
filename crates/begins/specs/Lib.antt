pub mod Seek
pub mod Digits
pub mod Lines
pub mod Types
pub mod Commands
pub mod Entries
pub mod Theorems
