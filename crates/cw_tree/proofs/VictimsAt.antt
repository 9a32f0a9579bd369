pub mod At
pub mod Victims
