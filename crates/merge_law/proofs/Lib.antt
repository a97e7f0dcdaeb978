pub mod runs
pub mod guests
