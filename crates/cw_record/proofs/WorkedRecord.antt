pub mod Record
pub mod Scripts
