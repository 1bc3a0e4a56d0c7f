pub mod Sizes
pub mod Steps
pub mod Costs
pub mod Bound
pub mod Stack
pub mod Verdicts
