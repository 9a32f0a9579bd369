pub mod Kept
pub mod Races
pub mod InMemory
pub mod Worked
