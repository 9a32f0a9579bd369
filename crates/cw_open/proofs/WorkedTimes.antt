pub mod Checks
pub mod Late
pub mod Early
