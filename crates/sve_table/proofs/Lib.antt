pub mod Entries
pub mod Added
