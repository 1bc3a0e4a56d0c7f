pub mod AtMost
pub mod Tokens
pub mod Budget
