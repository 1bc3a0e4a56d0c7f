pub mod FirstTokens
pub mod Leads
pub mod Ways
