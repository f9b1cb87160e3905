pub mod Words
pub mod Options
pub mod Calls
pub mod Steps
pub mod Texts
