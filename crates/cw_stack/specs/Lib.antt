pub mod Cells
pub mod WorkedRun
