pub mod Labels
pub mod InStatements
pub mod InItems
pub mod InElements
pub mod Instantiations
pub mod Defaults
