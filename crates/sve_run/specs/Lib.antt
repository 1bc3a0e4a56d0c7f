pub mod Meaning
pub mod Step
pub mod Verdict
pub mod Runs
