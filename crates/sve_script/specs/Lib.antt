pub mod Limits
pub mod Session
pub mod OneReading
pub mod Made
