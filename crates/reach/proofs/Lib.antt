pub mod Loaded
mod Joining
mod Flows
mod Puts
mod Steps
mod Goings
mod Starts
mod Fills
