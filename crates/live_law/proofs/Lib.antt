pub mod Bodies
pub mod Points
pub mod Running
