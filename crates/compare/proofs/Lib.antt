pub mod Calls
pub mod Codes
pub mod Listing
pub mod Theorems
pub mod Sample
