pub mod Rows
pub mod Follow
