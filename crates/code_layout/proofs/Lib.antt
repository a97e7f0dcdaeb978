pub mod Sizes
pub mod Starts
pub mod Placed
pub mod Tables
pub mod Paths
