pub mod Onward
pub mod RunLemmas
pub mod Replies
pub mod Told
pub mod OneAnswer
pub mod Complete
