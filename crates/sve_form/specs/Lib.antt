pub mod Operators
pub mod Keywords
pub mod Tokens
