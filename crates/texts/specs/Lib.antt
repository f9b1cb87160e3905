pub mod Words
pub mod Layouts
pub mod Escapes
pub mod Reasons
pub mod Refusals
