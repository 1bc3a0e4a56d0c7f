pub mod Noted
pub mod UpToDate
