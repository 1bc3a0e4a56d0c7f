pub mod Files
pub mod Laws
pub mod Piece
pub mod Refusals
pub mod Rows
pub mod Standing
pub mod Tree
