pub mod Placed
pub mod Moves
pub mod Chain
pub mod Growing
pub mod Told
pub mod Laws
pub mod tools
