pub mod Ranges
pub mod Outcomes
pub mod Same
pub mod Names
pub mod Members
