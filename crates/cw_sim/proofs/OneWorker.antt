pub mod Events
pub mod Splits
pub mod Records
pub mod Faults
pub mod DepthFirst
