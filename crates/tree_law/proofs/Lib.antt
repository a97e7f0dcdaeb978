pub mod lives
pub mod trees
