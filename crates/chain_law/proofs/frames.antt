pub mod Stacked
pub mod Shares
pub mod Apart
