pub mod Names
pub mod Entries
pub mod OneLife
pub mod OneRun
pub mod Growing
pub mod Joining
pub mod FirstLives
pub mod Alike
pub mod Told
mod Laws
mod WordLaws
pub mod Depth
pub mod RowLaws
mod PackedRows
