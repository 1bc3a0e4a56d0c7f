pub mod Cutting
pub mod Lines
pub mod Linted
pub mod ReadBack
pub mod Reports
