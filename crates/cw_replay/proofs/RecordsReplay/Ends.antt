pub mod Faulting
pub mod Spending
pub mod Stops
pub mod Theorem
