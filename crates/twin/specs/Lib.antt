pub mod Logs
pub mod Twins
