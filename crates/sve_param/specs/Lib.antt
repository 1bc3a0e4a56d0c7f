pub mod Places
pub mod Giving
