pub mod Packages
pub mod Naming
pub mod Constants
pub mod Wrongs
