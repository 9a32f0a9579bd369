pub mod Counted
pub mod Distinct
pub mod Ended
pub mod Passing
pub mod Turns
