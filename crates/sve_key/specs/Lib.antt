pub mod KeyOrder
pub mod Parts
pub mod Readings
pub mod Values
