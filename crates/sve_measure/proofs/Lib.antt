pub mod Rows
pub mod Selects
