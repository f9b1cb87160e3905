pub mod Bounds
pub mod Scenes
pub mod Searches
pub mod Outcomes
pub mod Opens
pub mod Examinations
pub mod Least
pub mod Stops
