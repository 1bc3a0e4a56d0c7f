pub mod Rows
pub mod Heads
pub mod Sides
