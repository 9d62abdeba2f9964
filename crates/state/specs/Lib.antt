pub mod State
pub mod Legal
pub mod Image
pub mod Head
pub mod Table
pub mod Check
