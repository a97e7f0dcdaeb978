pub mod TypesSame
pub mod Small
pub mod Levels
pub mod ScopeLaws
pub mod Balanced
pub mod Quiet
pub mod BalancedStmts
pub mod WellParts
pub mod WellTypes
pub mod WellExprs
pub mod WellForms
pub mod WellStmts
pub mod WellBlocks
pub mod WellLevels
pub mod WholeExprs
pub mod WholeStmts
pub mod WellMarks
pub mod WellFunctions
pub mod WellFunction
pub mod WellOuter
pub mod WellItems
pub mod WellTables
pub mod WellStructs
pub mod WellGlobals
pub mod WellTexts
pub mod WellTyped
pub mod WellCounts
pub mod WellMain
pub mod WellEarlier
pub mod WellSizes
pub mod WellProgram
mod DeclaredStmts
mod Declared
mod SiteLevels
mod SitesKnown
mod SitesCounted
mod WellSites
pub mod Few
