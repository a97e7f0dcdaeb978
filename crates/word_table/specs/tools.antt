pub mod Areas
pub mod BitRows
pub mod Classes
pub mod Deciding
pub mod Picked
