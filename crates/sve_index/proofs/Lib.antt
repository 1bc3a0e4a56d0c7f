pub mod Added
pub mod Folded
pub mod Parts
pub mod Instantiated
pub mod Tops
