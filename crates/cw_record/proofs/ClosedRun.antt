pub mod LeftEnds
pub mod LeftMemory
pub mod LeftRuns
pub mod NumberedTrees
pub mod RenamedStrands
pub mod Runs
pub mod Strands
