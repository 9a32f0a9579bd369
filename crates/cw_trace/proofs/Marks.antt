pub mod Bracketing
pub mod Counts
pub mod Edits
pub mod FourMarks
pub mod Marking
pub mod Numbering
