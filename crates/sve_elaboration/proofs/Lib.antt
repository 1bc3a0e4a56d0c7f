mod Folds
mod Placing
