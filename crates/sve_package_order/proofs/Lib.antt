pub mod Places
pub mod Next
pub mod Steps
pub mod Numbered
pub mod Early
pub mod OnCycles
