pub mod Forms
pub mod Frames
pub mod DeepForm
