pub mod Folds
pub mod Selects
