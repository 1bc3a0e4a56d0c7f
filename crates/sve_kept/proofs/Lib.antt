pub mod Joining
pub mod Longer
