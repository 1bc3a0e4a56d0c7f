pub mod Counts
pub mod Ends
pub mod Looks
pub mod Steps
pub mod Totals
pub mod Walking
