mod Looped
mod Adding
pub mod Calls
