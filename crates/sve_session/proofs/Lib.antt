pub mod Meets
pub mod Entries
pub mod Tells
pub mod Closes
