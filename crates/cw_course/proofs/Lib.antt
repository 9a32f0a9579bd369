pub mod Closings
pub mod Courses
pub mod Trails
mod Worked
pub mod TreeLogs
