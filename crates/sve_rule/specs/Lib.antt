pub mod Judged
pub mod States
pub mod Rows
pub mod Rules
pub mod Systems
pub mod Dimensions
