pub mod Chunks
pub mod Seeking
