pub mod Reading
pub mod Along
pub mod Hearing
pub mod Telling
pub mod Looks
