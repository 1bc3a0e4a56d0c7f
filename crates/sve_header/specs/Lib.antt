pub mod Coming
pub mod Imports
pub mod Parameters
pub mod Ports
