pub mod Pushes
pub mod Revisions
pub mod Stamps
