pub mod Rules
pub mod Meanings
pub mod Lines
