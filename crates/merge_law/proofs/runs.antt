pub mod Stops
pub mod Merging
pub mod Back
pub mod Upto
