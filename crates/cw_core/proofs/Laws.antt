pub mod Alike
pub mod EarlySplits
pub mod LeftFirst
pub mod Splits
