pub mod Calls
pub mod Callers
pub mod Reading
pub mod Home
