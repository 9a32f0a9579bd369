pub mod Barring
pub mod FromTree
pub mod Kept
pub mod Outside
pub mod Outward
