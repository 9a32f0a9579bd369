pub mod OverSource
