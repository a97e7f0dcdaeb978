pub mod Closing
pub mod Joining
pub mod Pushing
pub mod Splitting
