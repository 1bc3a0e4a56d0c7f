pub mod Use
pub mod Uses
pub mod LeftSides
