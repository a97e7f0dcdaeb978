pub mod Points
pub mod Calls
pub mod Spans
pub mod Closing
pub mod Branches
pub mod Rows
