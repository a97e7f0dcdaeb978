pub mod tools
