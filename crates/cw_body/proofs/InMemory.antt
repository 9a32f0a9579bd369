pub mod Answered
pub mod Backs
pub mod Forks
pub mod Calls
pub mod Shown
