pub mod Ways
pub mod OnTheWalk
pub mod OnThePath
