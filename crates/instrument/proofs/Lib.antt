pub mod MakingRows
pub mod FoundRows
pub mod GoodModules
