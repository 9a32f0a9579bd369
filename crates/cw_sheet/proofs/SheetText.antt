pub mod Beginning
pub mod Naming
pub mod Read
pub mod Told
pub mod Worked
