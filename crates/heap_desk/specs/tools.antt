pub mod Indexed
pub mod Spans
