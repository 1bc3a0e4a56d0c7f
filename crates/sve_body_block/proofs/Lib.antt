pub mod Parts
pub mod OfItems
pub mod PlainItems
