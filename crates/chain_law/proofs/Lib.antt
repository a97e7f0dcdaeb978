pub mod histories
pub mod frames
