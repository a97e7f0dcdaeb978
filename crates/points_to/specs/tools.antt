pub mod RowMaps
pub mod Here
pub mod Marked
pub mod Entries
