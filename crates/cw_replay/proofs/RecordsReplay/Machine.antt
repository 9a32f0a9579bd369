pub mod Acts
pub mod Replaying
