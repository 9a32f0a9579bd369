pub mod Access
pub mod Ends
pub mod Fault
pub mod Law
pub mod Moves
pub mod Parts
pub mod Victim
