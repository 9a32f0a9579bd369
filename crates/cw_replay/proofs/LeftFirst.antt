pub mod Leftmost
pub mod Parted
pub mod Lefts
pub mod Ordered
pub mod Machine
pub mod DepthFirst
pub mod Closed
pub mod OneOrder
