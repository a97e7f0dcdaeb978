mod Rows
pub mod FewSites
pub mod PathEnds
pub mod StartWords
pub mod Going
pub mod Finishing
