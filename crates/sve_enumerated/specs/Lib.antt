pub mod Passing
pub mod Found
pub mod Names
pub mod Types
