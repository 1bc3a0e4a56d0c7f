pub mod Beginnings
pub mod Bodies
pub mod Ended
pub mod Asking
