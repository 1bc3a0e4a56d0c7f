pub mod Last
pub mod InFront
pub mod Leaving
