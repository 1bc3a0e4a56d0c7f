pub mod Fronts
pub mod Ways
