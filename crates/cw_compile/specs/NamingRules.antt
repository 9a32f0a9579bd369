pub mod Scopes
pub mod Visible
pub mod Items
