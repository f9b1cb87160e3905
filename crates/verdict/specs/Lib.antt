pub mod Digits
pub mod Slips
pub mod Verdicts
pub mod Inputs
