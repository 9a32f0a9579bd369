mod Innermost
mod Listing
mod Victims
