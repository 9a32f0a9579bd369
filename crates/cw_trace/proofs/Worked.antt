pub mod Checks
pub mod SmallRun
pub mod WaitingRun
