pub mod Paths
pub mod Places
pub mod Answers
pub mod Resolving
pub mod Diagnosing
pub mod Queries
pub mod Linting
