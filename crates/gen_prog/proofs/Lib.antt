pub mod Growth
mod Rows
