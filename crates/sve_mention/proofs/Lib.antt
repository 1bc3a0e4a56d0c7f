pub mod Statements
pub mod Items
pub mod Ports
pub mod Found
pub mod Labels
pub mod Instantiated
