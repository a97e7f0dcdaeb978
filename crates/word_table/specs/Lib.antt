pub mod Decides
pub mod Holds
pub mod Stripes
pub mod Tables
pub mod Words
pub mod tools
