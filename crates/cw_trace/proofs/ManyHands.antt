pub mod Differ
pub mod Loads
pub mod Later
pub mod Opening
pub mod Shutting
pub mod Steps
pub mod Running
