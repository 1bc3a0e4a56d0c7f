pub mod Rows
pub mod TreeOrders
