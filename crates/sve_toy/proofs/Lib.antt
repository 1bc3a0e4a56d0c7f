pub mod Commands
pub mod Halting
