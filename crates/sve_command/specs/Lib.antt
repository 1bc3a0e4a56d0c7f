pub mod Edits
pub mod Asks
pub mod Commands
pub mod Sizes
pub mod Drafts
