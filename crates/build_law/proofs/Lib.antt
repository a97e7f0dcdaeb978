pub mod Building
pub mod Running
