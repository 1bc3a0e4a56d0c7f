pub mod Types
pub mod Windows
