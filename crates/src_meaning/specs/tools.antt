pub mod Branches
pub mod Follows
pub mod Knots
pub mod Levels
