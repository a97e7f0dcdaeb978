pub mod Numbered
pub mod Fetched
pub mod Resuming
pub mod Left
pub mod Settling
pub mod EndsHere
