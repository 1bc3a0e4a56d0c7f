pub mod Alternatives
pub mod Levels
