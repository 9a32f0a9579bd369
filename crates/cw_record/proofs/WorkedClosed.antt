pub mod Early
pub mod Late
pub mod States
