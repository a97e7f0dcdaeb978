pub mod Links
pub mod Reached
