pub mod Passes
pub mod Calls
pub mod Tries
pub mod Opened
