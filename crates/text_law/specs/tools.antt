pub mod Opcodes
pub mod Instrs
pub mod Parts
pub mod Keys
pub mod Whole
