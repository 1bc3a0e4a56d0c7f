pub mod Trees
pub mod OneValue
pub mod SpecOrder
