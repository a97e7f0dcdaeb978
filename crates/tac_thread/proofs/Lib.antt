pub mod Usable
pub mod Silent
pub mod Runs
pub mod Held
pub mod Trees
pub mod Forking
pub mod Lent
pub mod Leftover
