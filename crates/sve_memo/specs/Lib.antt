pub mod Memos
pub mod Trees
