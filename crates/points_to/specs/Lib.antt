pub mod Rows
pub mod Systems
pub mod Laws
pub mod tools
