pub mod Functions
pub mod Headed
pub mod Readings
pub mod Follows
pub use Rattle.sve_formal_data.specs.Declarations
pub use Rattle.sve_declare.specs.Parameters
pub use Rattle.sve_declare.specs.Typedefs
