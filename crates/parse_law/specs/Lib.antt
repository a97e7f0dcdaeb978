pub mod Nesting
pub mod FirstFault
pub mod Tells
pub mod BracketSums
pub mod tools
