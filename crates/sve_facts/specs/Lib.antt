pub mod Facts
pub mod Bodies
