pub mod Ways
pub mod Leads
pub mod Chains
pub mod ClosingKinds
