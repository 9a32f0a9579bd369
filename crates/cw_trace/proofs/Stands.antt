pub mod Counting
pub mod UpFrom
pub mod UpsKept
pub mod WithStamps
