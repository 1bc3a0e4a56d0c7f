pub mod Chunks
pub mod Stops
