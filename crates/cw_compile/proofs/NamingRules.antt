pub mod FirstFault
pub mod Found
pub mod ItemSteps
pub mod MainItem
pub mod NameSteps
pub mod SameNames
