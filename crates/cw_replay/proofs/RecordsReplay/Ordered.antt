pub mod Climbing
pub mod Entries
pub mod Ordering
pub mod Respecting
pub mod Runs
