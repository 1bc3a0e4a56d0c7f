pub mod Labels
pub mod Blocks
pub mod Genvars
