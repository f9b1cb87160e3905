mod Holding
mod Searching
pub mod Tellings
