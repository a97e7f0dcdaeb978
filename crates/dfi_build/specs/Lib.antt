pub mod Source
pub mod Builds
pub mod Laws
