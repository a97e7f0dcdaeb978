pub mod Changed
pub mod Keeping
pub mod Going
pub mod Waking
pub mod Growing
pub mod Along
pub mod Ancestors
pub mod Coarser
