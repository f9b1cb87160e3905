pub mod Words
pub mod Reasons
pub mod Entries
pub mod Values
