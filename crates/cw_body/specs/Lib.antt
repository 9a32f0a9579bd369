pub mod Bodies
pub mod InMemory
