pub mod OnePast
pub mod SameMachines
