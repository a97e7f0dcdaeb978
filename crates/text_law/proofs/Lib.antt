pub mod Basics
pub mod Instructions
pub mod Parts
pub mod Keys
pub mod Orders
pub mod Whole
