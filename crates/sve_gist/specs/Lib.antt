pub mod Mentions
pub mod Designs
pub mod Gists
pub mod Index
