pub mod Digits
pub mod Legal
pub mod Found
