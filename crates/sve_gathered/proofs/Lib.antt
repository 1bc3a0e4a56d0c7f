pub mod Asking
mod Names
mod SoFar
pub mod AtFiles
