pub mod Outcomes
pub mod Majorities
pub mod Proposals
pub mod Votes
pub mod Limits
pub mod Places
