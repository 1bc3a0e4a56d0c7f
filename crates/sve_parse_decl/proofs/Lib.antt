pub mod Starts
pub mod PortTypes
pub mod Stops
pub mod Sequences
