pub mod List
pub mod Models
pub mod Lists
