mod Counts
mod Names
pub mod Parts
mod Additions
pub mod Held
mod Trees
mod Directives
mod Stops
