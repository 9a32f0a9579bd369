pub mod Checks
pub mod GivenUp
pub mod KeptParts
pub mod KeptRuns
pub mod OneTreeRows
