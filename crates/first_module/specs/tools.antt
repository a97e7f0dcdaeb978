pub mod Readers
pub mod Counted
pub mod Steps
pub mod Trail
