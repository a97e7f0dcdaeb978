pub mod Moving
pub mod Ending
pub mod Along
pub mod Back
