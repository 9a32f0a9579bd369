mod Cancels
mod Counted
mod Lookups
