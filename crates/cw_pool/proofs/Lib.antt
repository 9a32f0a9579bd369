mod Tasks
mod Starts
mod Crossing
mod Recorded
