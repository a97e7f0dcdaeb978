pub mod EachOnce
pub mod ClassesOf
pub mod StraightLine
pub mod SetsOf
pub mod ModuleOf
pub mod Sample
pub mod tools
