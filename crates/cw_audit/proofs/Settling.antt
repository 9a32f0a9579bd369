pub mod Levels
pub mod Following
pub mod Choosing
pub mod Theorem
