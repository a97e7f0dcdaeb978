pub mod Stripes
pub mod Heaps
