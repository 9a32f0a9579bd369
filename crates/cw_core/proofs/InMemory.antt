pub mod Access
pub mod Cancel
pub mod Fork
pub mod Join
pub mod Out
pub mod Refused
pub mod Split
pub mod Start
