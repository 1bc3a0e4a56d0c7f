pub mod Bytes
pub mod Classes
pub mod Longest
pub mod OneList
pub mod Pieces
pub mod Shift
pub mod Spots
pub mod Tokens
