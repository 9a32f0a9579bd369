pub mod Bases
pub mod Trees
pub mod Told
pub mod Journals
