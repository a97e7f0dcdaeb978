pub mod RunTree
pub mod Frames
pub mod Laws
