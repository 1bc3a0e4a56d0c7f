pub mod Log
pub mod Values
pub mod Knowledge
pub mod Steps
pub mod Rule
