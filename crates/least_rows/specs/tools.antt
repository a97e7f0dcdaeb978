pub mod Reads
pub mod Growing
