pub mod Counts
pub mod Expressions
pub mod Types
pub mod Declarations
pub mod Statements
pub mod Items
pub mod Costs
pub mod Bodies
