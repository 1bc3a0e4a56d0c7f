pub mod Around
pub mod Connections
pub mod Unknown
