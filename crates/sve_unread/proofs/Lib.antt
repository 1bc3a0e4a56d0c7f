pub mod Laid
pub mod Nested
