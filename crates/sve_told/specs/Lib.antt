pub mod Told
pub mod Keys
pub mod Made
pub mod Seen
