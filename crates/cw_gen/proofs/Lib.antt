pub mod Blocks
pub mod Cancels
pub mod Draws
pub mod Faults
pub mod Names
pub mod Mains
