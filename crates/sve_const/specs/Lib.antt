pub mod Answers
pub use Rattle.sve_measure.specs.Constants
