pub mod Listing
pub mod Lent
pub mod Holding
pub mod Models
