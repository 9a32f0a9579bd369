pub mod RecordsReplay
pub mod WorkedReplays
pub mod Attempts
pub mod SameMachines
pub mod Spawning
pub mod OverSource
pub mod LeftFirst
