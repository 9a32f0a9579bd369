pub mod DepthFirst
pub mod Keys
pub mod Renaming
pub mod Renumbered
pub mod Sound
pub mod Visits
pub mod OneTree
