pub mod Lists
pub mod Prefixes
pub mod Seated
pub mod EachStep
