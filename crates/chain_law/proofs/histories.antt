pub mod Asking
pub mod Chained
