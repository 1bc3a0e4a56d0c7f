pub mod Projects
pub mod Tops
pub mod Replies
