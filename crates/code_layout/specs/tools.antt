pub mod Offsets
pub mod Fitting
