pub mod Steps
pub mod Statements
