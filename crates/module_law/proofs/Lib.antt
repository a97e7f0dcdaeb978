pub mod Ascending
pub mod OrderedRows
pub mod Orders
pub mod DistinctFacts
pub mod CodeFacts
pub mod OneClass
pub mod MarkedModules
pub mod SameModules
