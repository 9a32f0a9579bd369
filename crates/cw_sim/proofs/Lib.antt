mod InMemory
mod Inside
mod Kept
mod Laws
mod OneWorker
pub mod Runs
