pub mod Growth
pub mod Kinds
pub mod Nesting
pub mod Standing
pub mod Staying
pub mod TreeSteps
pub mod Trees
