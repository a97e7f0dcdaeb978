pub mod Writes
pub mod Asked
pub mod Linking
pub mod Along
