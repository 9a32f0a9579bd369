pub mod Events
pub mod Fits
pub mod InMemory
pub mod Kept
pub mod Laws
mod Touched
mod Undone
