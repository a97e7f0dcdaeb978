pub mod Steps
pub mod Starts
pub mod Joining
pub mod Tickets
pub mod Ends
