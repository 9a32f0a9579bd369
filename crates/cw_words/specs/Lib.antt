pub mod Options
pub mod Words
pub mod Reading
pub mod Shapes
pub mod Asked
pub mod Worked
