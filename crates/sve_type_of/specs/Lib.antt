pub mod Written
pub mod TypeOf
pub mod Nodes
pub mod Selected
