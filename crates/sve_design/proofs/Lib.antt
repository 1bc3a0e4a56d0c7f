pub mod Accounts
pub mod Walks
pub mod Asked
pub mod Depths
