pub mod LawsHold
pub mod States
pub mod Unstopped
pub mod More
pub mod Clock
