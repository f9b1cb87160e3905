pub mod Points
pub mod Turns
