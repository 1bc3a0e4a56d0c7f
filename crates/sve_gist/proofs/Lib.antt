pub mod InStatements
pub mod InItems
pub mod InDesigns
pub mod Decided
pub mod Same
