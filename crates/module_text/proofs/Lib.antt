pub mod Seen
pub mod Joining
pub mod Telling
pub mod Marked
pub mod Ended
pub mod ReadBack
pub mod Behind
