pub mod Elements
pub mod Lawful
pub mod Nexts
pub mod Wants
pub mod Backs
pub mod Runs
