pub mod Strands
pub mod Saves
pub mod Runners
