pub mod Visits
pub mod Shows
pub mod Surveys
pub mod Among
