pub mod Standing
pub mod Histories
pub mod Planted
pub mod Placed
pub mod Settled
pub mod Grown
pub mod Forked
pub mod Along
