pub mod Blocks
pub mod Upward
pub mod Within
