mod Forms
mod Splits
mod Rows
mod Rules
mod Turns
mod Ends
mod Reading
mod Found
mod Parses
pub mod Unique
mod Jobs
mod Runs
