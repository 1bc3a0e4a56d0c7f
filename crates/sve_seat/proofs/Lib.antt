pub mod Changes
pub mod Later
pub mod Rising
pub mod Worlds
