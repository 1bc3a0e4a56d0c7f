pub mod Reading
pub mod Nested
pub mod Imports
pub mod Uses
