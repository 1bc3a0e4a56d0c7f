pub mod Calls
pub mod Fetched
pub mod Seen
pub mod Served
