pub mod Objects
pub mod Asked
pub mod Entries
pub mod Starts
pub mod Runs
pub mod tools
