pub mod Asked
pub mod Over
pub mod Ends
