pub mod Ends
pub mod Items
pub mod Lines
pub mod Nodes
pub mod Sources
pub mod Taking
pub mod Trees
pub mod Whole
