pub mod Constructs
pub mod BlockNames
pub mod Loops
pub mod Metering
