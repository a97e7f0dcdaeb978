mod Listed
mod PointLists
mod Closures
mod Joins
mod CallTables
mod Bodies
mod BranchLists
mod Adding
