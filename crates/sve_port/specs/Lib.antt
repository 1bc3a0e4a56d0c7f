pub mod Manners
pub mod Headings
pub mod Ports
