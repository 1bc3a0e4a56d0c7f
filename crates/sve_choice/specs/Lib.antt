pub mod Conditions
pub mod Labels
pub mod Held
