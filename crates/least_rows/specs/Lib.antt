pub mod Rules
pub mod Derived
pub mod Solutions
pub mod FirstOpen
pub mod tools
