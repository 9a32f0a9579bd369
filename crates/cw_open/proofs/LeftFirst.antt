pub mod Sides
pub mod Meeting
pub mod Unrefused
pub mod Older
pub mod AreOlder
