pub mod Choices
pub mod Pieces
pub mod Selects
pub mod Members
pub mod Extents
