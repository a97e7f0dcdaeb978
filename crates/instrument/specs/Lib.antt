pub mod Instruments
pub mod tools
