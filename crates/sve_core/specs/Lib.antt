pub mod Asks
pub mod Commits
