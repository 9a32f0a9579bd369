pub mod Before
pub mod ClosedStamps
pub mod Closing
pub mod Growing
pub mod Kept
pub mod Pending
pub mod Stamps
pub mod Trees
