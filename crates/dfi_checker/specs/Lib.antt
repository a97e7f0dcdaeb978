pub mod TextPlace
pub mod Regions
pub mod BreaksForm
pub mod Breaks
pub mod IsAccepted
pub mod Laws
