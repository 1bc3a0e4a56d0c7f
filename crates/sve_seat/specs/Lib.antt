pub mod Outcomes
pub mod Seats
