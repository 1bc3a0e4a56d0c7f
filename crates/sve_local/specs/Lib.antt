pub mod Steps
pub mod Within
pub use Rattle.sve_loop_data.specs.Used
