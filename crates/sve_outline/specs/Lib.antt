pub mod Outline
pub mod Words
pub mod Expressions
pub mod Types
pub mod Declarations
pub mod Statements
pub mod Items
pub mod Elements
