pub mod One
pub mod Exports
pub mod Listing
