pub mod Lines
pub mod TwoStates
