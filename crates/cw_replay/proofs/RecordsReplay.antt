pub mod Blocks
pub mod Ends
pub mod Kept
pub mod Machine
pub mod Memory
pub mod Ordered
pub mod Tasks
pub mod Work
