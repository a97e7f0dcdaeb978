pub mod FirstFault
pub mod Lines
pub mod Laws
pub mod tools
