pub mod Beginnings
pub mod Names
pub mod Kinds
pub mod Faces
pub mod Designs
