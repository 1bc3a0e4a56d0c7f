pub mod WordText
pub mod Keywords
pub mod Operators
