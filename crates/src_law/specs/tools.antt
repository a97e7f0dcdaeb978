pub mod Heard
pub mod Reader
pub mod ReaderLaws
pub mod RunLaws
pub mod Threads
