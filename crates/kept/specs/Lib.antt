pub mod Change
