pub mod Sound
pub mod Boards
pub mod Turns
pub mod Asked
pub mod Victims
pub mod Cancelled
