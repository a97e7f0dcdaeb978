pub mod Least
pub mod Asking
pub mod Inducing
mod Writing
mod Gathering
mod Moving
mod Storing
mod Applying
mod Visiting
mod Indexing
