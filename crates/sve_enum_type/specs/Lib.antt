pub mod Earlier
pub mod Enumerations
pub mod Nodes
