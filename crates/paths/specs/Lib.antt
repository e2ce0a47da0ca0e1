pub mod Paths
pub mod Models
