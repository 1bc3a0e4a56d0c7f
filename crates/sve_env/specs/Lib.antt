pub mod Told
pub mod Nodes
