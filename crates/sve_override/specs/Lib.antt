pub mod Arguments
pub mod Overrides
pub mod Specializations
