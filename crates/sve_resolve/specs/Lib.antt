pub mod Known
pub mod Within
pub mod Values
pub mod Resolving
pub mod Taken
