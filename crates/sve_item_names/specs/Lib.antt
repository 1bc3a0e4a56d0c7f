pub mod Declarations
pub mod Items
