mod Beginning
mod Notes
mod Extending
mod Ending
mod Following
