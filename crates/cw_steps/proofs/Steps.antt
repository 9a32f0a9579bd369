pub mod Words
pub mod Draws
pub mod Turning
pub mod Opening
pub mod Marking
pub mod Changing
pub mod Parting
