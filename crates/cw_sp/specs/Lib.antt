pub mod Orders
pub mod Laws
pub mod Lines
pub mod InMemory
pub mod Worked
