pub mod NamingRules
pub mod Named
pub mod Numbered
pub mod Emitted
