pub mod Runs
pub mod Splices
