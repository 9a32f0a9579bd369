pub mod Results
pub mod Report
pub mod Found
pub mod Elements
pub mod RunNames
pub mod Worked
