pub mod Bytes
pub mod Numbering
