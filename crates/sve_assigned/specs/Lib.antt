pub mod Forms
pub mod Assignments
pub use Rattle.sve_type_of.specs.TypeOf
