pub mod Instances
pub mod Places
pub mod Names
pub mod Uses
