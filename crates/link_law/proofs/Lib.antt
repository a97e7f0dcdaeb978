pub mod links
pub mod homes
pub mod reach
