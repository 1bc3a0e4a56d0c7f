pub mod Paths
pub mod Named
