pub mod Inversions
pub mod NewNames
pub mod Fitting
pub mod Readings
pub mod MadeFiles
