pub mod Shared
pub mod Passes
pub mod Commits
pub mod Asks
pub mod Ends
pub mod Meeting
