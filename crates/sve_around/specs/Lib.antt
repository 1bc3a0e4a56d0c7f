pub mod Things
pub mod References
pub mod Nets
pub mod Around
