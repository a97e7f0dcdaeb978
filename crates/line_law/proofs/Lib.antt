pub mod Lined
pub mod Parts
pub mod Exprs
pub mod Decls
pub mod Stmts
pub mod Programs
pub mod Begins
pub mod OneLine
