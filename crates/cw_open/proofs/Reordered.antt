pub mod Conflicts
pub mod History
pub mod Leaving
pub mod Places
pub mod Renamed
pub mod SeriesRise
pub mod Spending
