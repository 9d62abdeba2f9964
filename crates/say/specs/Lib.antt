pub mod Said
pub mod Spoken
