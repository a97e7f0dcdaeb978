pub mod FirstFit
pub mod Order
pub mod Beside
pub mod Histories
pub mod Same
pub mod Spans
pub mod Levels
pub mod Blocks
pub mod Index
pub mod Scans
pub mod Heaps
mod Rows
