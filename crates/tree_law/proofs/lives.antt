pub mod Lines
pub mod Edges
pub mod Silent
pub mod Moving
pub mod Placing
