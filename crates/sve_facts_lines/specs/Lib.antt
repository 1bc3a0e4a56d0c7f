pub mod Texts
pub mod Instances
pub mod Things
pub mod Resolved
