pub mod Seen
pub mod Fitting
pub mod Links
pub mod Connections
