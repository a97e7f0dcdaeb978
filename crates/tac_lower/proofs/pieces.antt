pub mod Levels
pub mod Sized
pub mod SizedStmts
pub mod Sited
pub mod SitedStmts
pub mod NumberedSites
