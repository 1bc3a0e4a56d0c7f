pub mod Ends
pub mod Along
