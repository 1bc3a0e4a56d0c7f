pub mod Current
pub mod Gains
pub mod Sound
pub mod Watched
