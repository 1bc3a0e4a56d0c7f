pub mod Cuts
pub mod Settled
pub mod Texts
