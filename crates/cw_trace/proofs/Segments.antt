pub mod Alike
pub mod Fork
pub mod Lines
pub mod Merge
pub mod Nested
pub mod Opening
pub mod Split
