pub mod pieces
pub mod emitted
pub mod interned
pub mod counted
pub mod form
pub mod rows
pub mod Laws
