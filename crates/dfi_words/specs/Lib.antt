pub mod Answers
pub mod Number
pub mod Options
pub mod Reads
pub mod Split
pub mod tools
