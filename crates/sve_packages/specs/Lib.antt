pub mod Turns
pub mod Packages
