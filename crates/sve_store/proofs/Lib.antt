pub mod Lookups
pub mod Notes
pub mod Tables
pub mod Ways
