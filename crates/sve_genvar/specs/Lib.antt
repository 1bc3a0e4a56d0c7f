pub mod Genvar
pub mod Steps
