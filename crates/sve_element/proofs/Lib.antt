pub mod DesignWays
pub mod Chunks
