pub mod Tickets
pub mod Merging
