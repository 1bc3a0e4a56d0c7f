mod Cutting
pub mod Dispatch
mod Longest
mod Numbers
mod OneList
pub mod Pieces
pub mod Runs
mod Spots
mod Starts
pub mod Strings
mod Tables
mod TokenSteps
