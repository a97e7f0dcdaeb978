pub mod Counted
pub mod Inside
pub mod Outside
pub mod Innermost
pub mod Nested
pub mod Leads
pub mod Laws
