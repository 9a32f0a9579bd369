pub mod Greatest
pub mod Between
