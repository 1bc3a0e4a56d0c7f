pub mod Splice
pub mod Tree
