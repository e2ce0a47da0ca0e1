pub mod Asked
pub mod Exports
pub mod Listing
