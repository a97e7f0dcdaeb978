pub mod Did
pub mod Frames
pub mod Going
pub mod Laws
