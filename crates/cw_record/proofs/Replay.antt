pub mod OneRun
pub mod Replayed
pub mod SameBacks
pub mod ShownItems
