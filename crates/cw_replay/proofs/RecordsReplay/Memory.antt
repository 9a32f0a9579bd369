pub mod Beginning
pub mod Closing
pub mod Given
pub mod Journaling
pub mod Remembering
pub mod Tracking
