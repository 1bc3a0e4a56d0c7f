pub mod Steps
pub mod Loops
pub mod Items
pub mod Body
pub mod Budget
