pub mod Sources
pub mod Defs
pub mod Designs
pub mod Instances
pub mod Labels
pub mod Gathered
pub mod Whole
pub mod Tops
