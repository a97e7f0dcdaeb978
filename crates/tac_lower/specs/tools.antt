pub mod Emits
pub mod Plans
pub mod Keys
pub mod Interning
pub mod Counting
pub mod Drafted
pub mod Nested
pub mod Well
