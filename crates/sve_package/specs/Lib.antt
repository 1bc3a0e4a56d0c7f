pub mod Readings
pub mod Opening
pub mod FirstFunctions
pub mod Packages
pub mod Units
