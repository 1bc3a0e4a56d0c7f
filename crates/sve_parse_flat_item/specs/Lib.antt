pub mod Alternatives
pub mod Parts
