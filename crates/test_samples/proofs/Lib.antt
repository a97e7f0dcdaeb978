pub mod Running
pub mod Sets
