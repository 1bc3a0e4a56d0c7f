pub mod PlainNames
pub mod Each
pub mod Equations
