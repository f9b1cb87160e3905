pub mod Limits
pub mod Table
pub mod Opens
pub mod Passing
pub mod Merging
pub mod Work
