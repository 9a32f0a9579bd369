pub mod Declarations
pub mod Emitting
pub mod Extents
pub mod KnownNames
pub mod Most
pub mod NamingRules
pub mod Numbers
pub mod Programs
