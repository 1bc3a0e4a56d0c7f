pub mod Simple
pub use Rattle.sve_measure.specs.Constants
