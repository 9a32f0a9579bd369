pub mod Counts
pub mod Tracks
pub mod Concerns
pub mod Steps
pub mod Leaving
pub mod Walked
pub mod WrittenBeneath
