pub mod Blocks
pub mod Items
pub mod Names
pub mod FreeZeros
pub mod Turns
