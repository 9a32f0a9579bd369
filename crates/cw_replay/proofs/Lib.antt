mod Kin
mod ForkNumbers
mod Elders
pub mod Found
pub mod Attempts
pub mod LeftFirst
pub mod OverSource
pub mod RecordsReplay
mod SameMachines
pub mod Spawning
mod WorkedReplays
