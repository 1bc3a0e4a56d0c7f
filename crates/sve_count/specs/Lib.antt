pub mod Declarations
pub mod Statements
pub mod Functions
pub mod Counting
