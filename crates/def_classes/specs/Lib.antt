pub mod AreSets
pub mod IsWithin
pub mod Laws
pub mod tools
