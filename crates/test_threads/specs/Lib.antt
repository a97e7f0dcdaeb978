pub mod Bytes
pub mod Deep
