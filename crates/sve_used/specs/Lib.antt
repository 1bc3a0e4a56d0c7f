pub mod Steps
pub mod Used
pub mod Using
