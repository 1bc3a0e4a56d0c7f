pub mod Elaborated
pub mod InOrder
mod SameFiles
pub mod LinesAt
pub mod OneAnswer
