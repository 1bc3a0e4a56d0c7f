pub mod Places
pub mod Walk
pub mod Paying
pub mod Halts
