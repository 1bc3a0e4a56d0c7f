pub mod Made
pub mod Noted
pub mod Snapshots
pub mod Told
pub mod Tries
pub mod Values
