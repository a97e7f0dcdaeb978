pub mod Knowing
pub mod Silent
pub mod Entry
pub mod Reading
pub mod Along
