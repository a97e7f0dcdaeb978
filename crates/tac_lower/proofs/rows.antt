pub mod Small
pub mod SmallStmts
pub mod Rows
pub mod MoreRows
