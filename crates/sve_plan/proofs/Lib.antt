pub mod Runs
pub mod Asks
pub mod Each
pub mod Steps
