pub mod Firsts
pub mod Lines
