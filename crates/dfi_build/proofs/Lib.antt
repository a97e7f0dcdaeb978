pub mod OneTree
pub mod OneBuild
