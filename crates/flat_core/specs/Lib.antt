pub mod Store
pub mod Turns
pub mod Serves
pub mod Stands
pub mod Runs
pub mod Laws
pub mod tools
