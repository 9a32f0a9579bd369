pub mod Readers
pub mod Racing
pub mod Groups
pub mod Searching
pub mod Noting
pub mod Counted
pub mod Listing
pub mod Agreeing
