pub mod Leaves
pub mod Ast
pub mod LineOf
