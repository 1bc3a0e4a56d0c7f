pub mod Rounds
pub mod Graph
pub mod Search
pub mod Cycles
