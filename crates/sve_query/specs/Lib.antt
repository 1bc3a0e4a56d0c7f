pub mod Answering
pub mod AnswersAt
pub use Rattle.sve_design_answers.specs.Linting
