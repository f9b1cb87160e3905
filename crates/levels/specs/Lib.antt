pub mod Secrecy
pub mod Owners
pub mod Pairs
pub mod Names
pub mod Tables
pub mod OwnersLaws
pub mod Laws
