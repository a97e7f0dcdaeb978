pub mod Tickets
pub mod Shared
