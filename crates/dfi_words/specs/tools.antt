pub mod Found
pub mod Jobs
