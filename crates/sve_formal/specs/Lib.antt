pub mod Formals
pub mod Written
