pub mod Loops
pub use Rattle.sve_data.specs.Declarations
pub use Rattle.sve_data.specs.Used
