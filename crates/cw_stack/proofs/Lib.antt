pub mod Rising
pub mod Keeping
pub mod Rolling
pub mod Searching
pub mod WorkedEntries
