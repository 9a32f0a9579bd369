pub mod Next
pub mod Orders
pub mod Ways
pub mod Work
