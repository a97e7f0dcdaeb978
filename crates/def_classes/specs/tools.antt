pub mod Counted
pub mod EachOnce
pub mod Listed
pub mod Readers
