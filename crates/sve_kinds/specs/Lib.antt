pub mod Passes
pub mod Asked
