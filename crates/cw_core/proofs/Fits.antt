pub mod Dying
pub mod Fits
pub mod LeftStrands
pub mod Ready
