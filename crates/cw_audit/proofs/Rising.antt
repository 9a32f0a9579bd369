pub mod Least
pub mod Within
pub mod Beneath
pub mod Before
pub mod Times
pub mod Parts
