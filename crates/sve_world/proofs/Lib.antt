pub mod Events
pub mod Items
pub mod Moves
pub mod Sounds
