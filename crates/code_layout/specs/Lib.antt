pub mod LaidOut
pub mod LeadsTo
pub mod LayoutOf
pub mod tools
