pub mod Looking
pub mod Seen
