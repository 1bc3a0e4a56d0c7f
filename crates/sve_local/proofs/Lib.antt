pub mod Folds
pub mod Follow
