pub mod Parameters
pub mod Typedefs
pub mod Alike
pub use Rattle.sve_scoped.specs.Known
