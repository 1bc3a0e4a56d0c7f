pub mod Make
pub mod AtFiles
pub mod IndexAt
