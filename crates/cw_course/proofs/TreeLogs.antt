pub mod Laid
pub mod Places
pub mod Nodes
pub mod Conflicts
pub mod Given
pub mod Hanging
pub mod Earlier
pub mod Worked
