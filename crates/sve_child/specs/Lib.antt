pub mod Saying
pub mod Definitions
pub mod Nets
pub mod Connecting
pub mod Naming
pub mod Faces
pub mod Children
