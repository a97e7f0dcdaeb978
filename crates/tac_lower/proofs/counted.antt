pub mod LowerLaws
pub mod CountLaws
