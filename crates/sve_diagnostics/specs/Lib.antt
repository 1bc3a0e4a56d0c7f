pub mod Missing
pub mod Diagnostics
