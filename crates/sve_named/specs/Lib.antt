pub mod Scopes
pub mod Named
pub use Rattle.sve_project.specs.Projects
pub use Rattle.sve_project.specs.Replies
