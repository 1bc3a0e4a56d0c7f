mod Stops
pub mod Ways
