pub mod BitRows
pub mod Members
pub mod Decides
pub mod Writes
pub mod Initial
pub mod Striped
pub mod Picks
