pub mod Put
pub mod Quorum
pub mod Paxos
