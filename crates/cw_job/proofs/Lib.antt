pub mod Room
pub mod FirstMemory
