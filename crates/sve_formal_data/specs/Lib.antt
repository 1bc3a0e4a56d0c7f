pub mod Formals
pub use Rattle.sve_data.specs.Declarations
