pub mod Sharing
pub mod Meaning
pub mod Pending
