mod SameNames
pub mod Stamps
pub mod Needs
pub mod Values
pub mod IndexValue
mod FromElements
pub mod FrontAt
