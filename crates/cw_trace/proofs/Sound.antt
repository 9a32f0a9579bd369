pub mod First
pub mod Fork
pub mod Made
pub mod Merge
pub mod Split
