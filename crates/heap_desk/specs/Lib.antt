pub mod Desk
pub mod Heap
pub mod InOrder
pub mod Laws
pub mod Replies
pub mod SameBlocks
pub mod Stands
pub mod tools
