pub mod CodeText
pub mod DiagOrder
pub mod DiagText
