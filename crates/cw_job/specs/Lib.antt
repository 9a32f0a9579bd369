pub mod Room
pub mod Jobs
pub mod Memory
