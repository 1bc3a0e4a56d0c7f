pub mod Seen
pub mod Visitors
pub mod Showing
pub mod Surveyed
pub mod Notes
pub mod Lint
