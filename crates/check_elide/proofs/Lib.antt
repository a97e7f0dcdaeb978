pub mod ReadNumbers
pub mod Unchecked
