pub mod Texts
pub mod Loads
pub mod Reply
pub mod Checked
pub mod Laws
pub mod TopCall
pub mod tools
