pub mod Threads
pub mod InPlace
pub mod Laws
