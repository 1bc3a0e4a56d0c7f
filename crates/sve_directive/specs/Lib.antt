pub mod Bytes
pub mod Define
pub mod Directives
pub mod Laws
pub mod Pieces
pub mod Words
