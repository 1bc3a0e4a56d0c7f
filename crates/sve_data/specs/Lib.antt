pub mod Declarators
pub mod Declarations
pub use Rattle.sve_used.specs.Used
pub use Rattle.sve_scoped.specs.Known
pub use Rattle.sve_scoped.specs.Said
