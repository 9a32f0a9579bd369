mod Known
pub mod Moves
pub mod Tasks
