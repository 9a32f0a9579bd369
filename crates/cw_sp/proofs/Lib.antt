pub mod Positions
pub mod Orders
pub mod Lines
pub mod BothLines
