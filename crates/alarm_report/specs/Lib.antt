pub mod Marks
pub mod Writers
