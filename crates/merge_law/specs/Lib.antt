pub mod Logs
pub mod Stops
pub mod AtRest
pub mod MergeLaws
pub mod Guests
pub mod GuestLaws
