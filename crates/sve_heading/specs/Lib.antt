pub mod Types
pub mod Items
