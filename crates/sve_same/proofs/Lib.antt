pub mod Exact
pub mod Records
