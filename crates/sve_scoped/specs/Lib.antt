pub mod Known
pub mod Said
pub mod Endless
pub use Rattle.sve_assigned.specs.Assignments
