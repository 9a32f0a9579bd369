pub mod Clock
pub mod Turns
pub mod Cells
pub mod Tiers
pub mod StopWord
