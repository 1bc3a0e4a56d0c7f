pub mod Records
pub mod Taken
