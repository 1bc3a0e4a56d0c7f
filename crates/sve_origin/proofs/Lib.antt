pub mod Marks
pub mod Growth
pub mod Spots
pub mod Covers
