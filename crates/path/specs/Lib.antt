pub mod Seen
pub mod Ways
pub mod Hunts
pub mod LeakWays
