pub mod Rows
pub mod Told
