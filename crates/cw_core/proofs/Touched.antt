pub mod InOrder
pub mod Listing
pub mod Noting
pub mod PuttingBack
