pub mod ModuleText
pub mod IsModule
pub mod IsText
pub mod Laws
pub mod tools
