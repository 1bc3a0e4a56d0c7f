pub mod Values
pub mod Overridable
pub mod Nodes
