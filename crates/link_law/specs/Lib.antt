pub mod Made
pub mod Linked
pub mod Laws
pub mod tools
